pub mod Writing
pub mod Showing
pub mod Running
