pub mod Octets
pub mod Effects
pub mod Lawful
