pub mod Chip
pub mod Bytes
pub mod Added
pub mod Pictures
