pub mod Numbers
pub mod BankRules
pub mod DriveRules
