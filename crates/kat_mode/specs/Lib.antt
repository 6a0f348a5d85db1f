pub mod Errors
pub mod Flags
pub mod Inputs
pub mod Names
pub mod Paths
pub mod Reading
pub mod Scopes
pub mod Turning
