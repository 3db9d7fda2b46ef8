pub mod Simple
pub mod Stages
pub mod Doing
pub mod Runners
pub mod Ending
