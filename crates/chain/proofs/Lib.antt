pub mod Passing
pub mod Law
