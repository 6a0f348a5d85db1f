pub mod Errors
pub mod Faults
pub mod Kinds
pub mod Totals
