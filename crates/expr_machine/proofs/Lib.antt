pub mod TokenSteps
pub mod Values
