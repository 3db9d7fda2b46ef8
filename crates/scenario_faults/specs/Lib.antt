pub mod Found
pub mod Touched
pub mod Checks
pub mod Labels
