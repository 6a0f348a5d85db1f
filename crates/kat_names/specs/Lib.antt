pub mod NameError
pub mod Names
