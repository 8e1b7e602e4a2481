pub mod Rows
pub mod Counted
