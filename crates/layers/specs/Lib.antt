pub mod Masked
pub mod Masks
pub mod HoldOffs
pub mod Masking
pub mod HoldingOff
