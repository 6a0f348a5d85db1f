pub mod Arms
pub mod Layers
pub mod Loops
pub mod Naming
pub mod Noting
pub mod Operands
