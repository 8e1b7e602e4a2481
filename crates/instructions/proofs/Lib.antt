pub mod Classes
pub mod Table
pub mod Fields
pub mod ReadBack
pub mod Pinned
pub mod AddedBytes
pub mod Fits
pub mod Unique
