pub mod Numbers
pub mod Written
pub mod Chain
pub mod Choosing
