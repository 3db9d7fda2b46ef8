pub mod Appends
pub mod Exits
pub mod Fronts
pub mod LineLoop
