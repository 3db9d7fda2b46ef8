pub mod Chains
pub mod Entries
pub mod Changes
pub mod Kept
pub mod Heads
pub mod Lending
pub mod Turns
