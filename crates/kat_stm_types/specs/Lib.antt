pub mod Branches
pub mod Judging
pub mod Uses
