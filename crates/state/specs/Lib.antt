pub mod Packed
pub mod Unfit
