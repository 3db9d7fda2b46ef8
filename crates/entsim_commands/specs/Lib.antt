pub mod CheckLine
pub mod ErrorLines
pub mod Headline
pub mod Outcome
pub mod Passed
pub mod Stops
pub mod Words
