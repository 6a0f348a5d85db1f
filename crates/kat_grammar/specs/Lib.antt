pub mod Parts
pub mod Forms
pub mod Described
pub mod Laws
