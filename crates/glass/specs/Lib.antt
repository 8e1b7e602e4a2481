pub mod Bit
pub mod Dot
pub mod Frame
pub mod Filling
pub mod Power
pub mod Voltage
pub mod Supply
