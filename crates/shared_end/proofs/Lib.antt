pub mod Filling
pub mod Framing
pub mod Unless
