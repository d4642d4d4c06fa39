pub mod Bounds
pub mod Rounding
