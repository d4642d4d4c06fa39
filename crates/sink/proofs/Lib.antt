pub mod Lits
