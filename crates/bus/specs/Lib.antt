pub mod Cycles
pub mod Run
pub mod Filling
pub mod Packed
