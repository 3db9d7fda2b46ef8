pub mod Changes
pub mod FreeIds
pub mod FoundIds
