pub mod Filling
pub mod Checking
pub mod RoundTrip
pub mod Padding
