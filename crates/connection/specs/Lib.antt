pub mod Fits
pub mod Exchanges
pub mod Returning
pub mod Driving
