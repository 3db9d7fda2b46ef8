pub mod Queries
pub mod Visited
pub mod After
