pub mod Draws
pub mod Scenario
pub mod Scene
