pub mod Answers
pub mod ByArguments
pub mod Kept
pub mod Levels
pub mod Limits
pub mod Norm
pub mod Rests
pub mod Substitution
