pub mod Agree
pub mod Entries
pub mod Versions
pub mod Suits
pub mod Lawful
pub mod Runnable
