pub mod Playing
pub mod Running
pub mod Promised
