pub mod Stages
pub mod Banks
pub mod Drives
pub mod Switching
