pub mod Kept
mod Members
pub mod Forms
mod Faults
mod TextReads
mod Suits
mod Lookups
mod Rooms
mod SystemsRun
mod SpawnsRun
pub mod Runs
pub mod Ordered
pub mod CycleExamples
