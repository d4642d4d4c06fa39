pub mod Storing
pub mod Steps
pub mod Outcomes
pub mod Pending
