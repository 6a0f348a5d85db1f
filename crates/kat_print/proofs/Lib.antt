pub mod Forms
pub mod TypeTexts
pub mod ExpressionTexts
pub mod StatementTexts
pub mod AssertionTexts
pub mod DeclarationTexts
