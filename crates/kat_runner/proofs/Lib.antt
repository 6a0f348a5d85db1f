pub mod Cells
pub mod Changes
pub mod Lines
pub mod Runs
pub mod Updated
