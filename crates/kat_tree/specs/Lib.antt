pub mod Character
pub mod Number
pub mod Machine
pub mod Lexeme
pub mod Spelling
pub mod Faults
pub mod Preorder
pub mod Written
