pub mod Taking
pub mod Turns
pub mod Writes
