pub mod StateText
pub mod Runner
