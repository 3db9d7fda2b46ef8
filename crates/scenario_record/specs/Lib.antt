pub mod Faults
pub mod Readings
pub mod Runnable
pub mod TextNames
pub mod Lawful
pub mod Uses
