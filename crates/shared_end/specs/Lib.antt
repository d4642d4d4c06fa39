pub mod Checks
pub mod Link
pub mod Data
pub mod Outcomes
pub mod Endpoints
pub mod Calls
