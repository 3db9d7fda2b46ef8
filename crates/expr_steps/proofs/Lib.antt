pub mod Passing
pub mod Reducing
pub mod Tails
pub mod Things
