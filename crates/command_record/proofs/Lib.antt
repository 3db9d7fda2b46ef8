pub mod Spans
pub mod GivenBack
pub mod Chains
pub mod Changed
