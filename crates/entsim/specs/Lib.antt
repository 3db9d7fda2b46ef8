pub use Rattle.entsim_commands.specs.CheckLine
pub use Rattle.entsim_commands.specs.ErrorLines
pub use Rattle.entsim_commands.specs.Headline
pub use Rattle.entsim_commands.specs.Outcome
pub use Rattle.entsim_commands.specs.Passed
pub use Rattle.entsim_commands.specs.Stops
pub use Rattle.entsim_commands.specs.Words
