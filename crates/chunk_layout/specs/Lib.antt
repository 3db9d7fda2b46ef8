pub mod Capacity
pub mod Places
