pub mod Commands
pub mod Layout
pub mod Writing
pub mod Reading
pub mod Received
pub mod ReadsBack
