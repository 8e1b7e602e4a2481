pub mod Cycles
pub mod Line
pub mod Written
pub mod Text
pub mod Job
pub mod Scan
pub mod C
