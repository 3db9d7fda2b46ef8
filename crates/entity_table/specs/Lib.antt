pub mod Ids
pub mod Table
pub mod Slots
