pub mod Verdicts
pub mod Numbers
