pub mod Orders
pub mod Rows
pub mod Restored
pub mod Written
