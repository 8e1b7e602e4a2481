pub mod Header
pub mod Memory
pub mod Text
pub mod Play
pub mod Output
pub mod Texts
