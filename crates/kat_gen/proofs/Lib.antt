pub mod Words
pub mod Trees
pub mod Formed
pub mod Each
pub mod Declarations
pub mod Generated
pub mod Texts
pub mod Pushed
