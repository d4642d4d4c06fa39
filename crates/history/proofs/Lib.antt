pub mod Telling
pub mod Shining
pub mod Taking
pub mod Blocks
pub mod Lasting
pub mod Leading
