pub mod Shifts
pub mod OneToOne
