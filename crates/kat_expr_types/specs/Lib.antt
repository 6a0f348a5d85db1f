pub mod Bases
pub mod Judging
pub mod Laws
pub mod Operands
pub mod Scopes
pub mod Uses
