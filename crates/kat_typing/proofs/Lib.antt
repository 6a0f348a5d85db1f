pub mod Cases
pub mod Counting
pub mod Fields
pub mod FirstFault
pub mod Judging
pub mod Noting
pub mod StatementTrees
pub mod Steps
