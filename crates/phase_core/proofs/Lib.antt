pub mod Lookups
pub mod Keeps
