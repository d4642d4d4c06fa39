pub mod Register
pub mod Crc
