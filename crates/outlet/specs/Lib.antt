pub mod Blocks
pub mod Steps
pub mod Outcomes
