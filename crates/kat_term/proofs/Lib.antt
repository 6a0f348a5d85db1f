pub mod FreshLaws
pub mod FreshSteps
pub mod GrowthLaws
pub mod Layers
pub mod TermEquality
pub mod TermTypes
mod ValueLayers
