pub mod Pmp
pub mod ByNumber
