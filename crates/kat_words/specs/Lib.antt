pub mod Command
pub mod Jobs
pub mod Law
pub mod Limits
pub mod Numbers
pub mod Seen
