pub mod TextLaw
pub mod Runs
pub mod Images
pub mod CleanDeclarations
