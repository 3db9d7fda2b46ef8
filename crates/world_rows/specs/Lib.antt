pub mod Rows
pub mod Types
pub mod Writes
pub mod Marks
pub mod Reading
pub mod Entering
