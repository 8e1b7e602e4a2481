pub mod Bits
pub mod Places
pub mod Ratios
pub mod Promised
pub mod Readers
pub mod Filling
pub mod EitherSet
