pub mod Lists
pub mod Stored
pub mod Rows
pub mod Seen
pub mod Widths
pub mod Switches
