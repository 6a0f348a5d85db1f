pub mod Arms
pub mod Cycle
pub mod Frames
pub mod Locals
pub mod Running
