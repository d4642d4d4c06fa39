pub mod Lighting
