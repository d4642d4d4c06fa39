pub mod Events
pub mod Histories
pub mod Live
pub mod Told
pub mod Requests
