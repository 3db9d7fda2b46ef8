pub mod TouchedSets
pub mod Parts
pub mod PlanLaw
