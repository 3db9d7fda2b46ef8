pub mod Columns
pub mod Places
pub mod Slices
pub mod Buffers
pub mod Fields
pub mod Types
