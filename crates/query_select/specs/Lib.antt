pub mod Entries
pub mod Rows
pub mod Filters
pub mod Caches
pub mod Visits
