pub mod States
pub mod Layers
pub mod DeviceCodes
pub mod Faults
pub mod Lines
