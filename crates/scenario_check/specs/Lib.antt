pub mod Planned
pub mod Read
pub mod Built
pub mod Children
pub use Rattle.scenario_faults.specs.Found
pub use Rattle.scenario_faults.specs.Touched
pub use Rattle.scenario_faults.specs.Checks
pub use Rattle.scenario_faults.specs.Labels
