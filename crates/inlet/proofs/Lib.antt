pub mod Pieces
pub mod Moves
pub mod Progress
