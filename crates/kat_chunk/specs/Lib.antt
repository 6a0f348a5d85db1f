pub mod Chunks
pub mod Laws
pub mod Limits
pub mod Regions
