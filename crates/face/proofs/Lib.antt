pub mod Numbering
pub mod AddedNumbering
pub mod Promised
pub mod Refusing
pub mod PromisedAdded
