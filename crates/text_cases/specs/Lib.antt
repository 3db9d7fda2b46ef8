pub mod Claims
pub mod Reads
