pub mod Beside
pub mod Registers
pub mod Switch
