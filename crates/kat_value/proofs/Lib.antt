pub mod EqualityLemmas
mod NumberLayers
pub mod NumberLemmas
mod NumbersBelow
mod OperationTypes
mod ShownTypes
pub mod TypeLawLemmas
pub mod TypingLemmas
pub mod WordLemmas
