pub mod Suiting
pub mod Alone
pub mod Parts
