pub mod Lists
pub mod Fitting
pub mod SmallForms
pub mod ExpressionForms
pub mod StatementForms
pub mod AssertionForms
pub mod DeclarationForms
pub mod SpecificationForms
