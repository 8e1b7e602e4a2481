pub mod Packing
pub mod Accepting
