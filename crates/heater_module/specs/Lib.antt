pub mod Heaters
pub mod HeaterRules
pub mod Interlocking
