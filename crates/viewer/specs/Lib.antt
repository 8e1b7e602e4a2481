pub mod Played
pub mod Drawn
