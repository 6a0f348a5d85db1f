pub mod Lists
pub mod Types
pub mod Expressions
pub mod Statements
pub mod Terms
pub mod Assertions
pub mod Declarations
pub mod Values
