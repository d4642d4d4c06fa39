pub mod Sealing
pub mod Printed
