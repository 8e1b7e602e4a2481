pub mod InRange
pub mod Switching
