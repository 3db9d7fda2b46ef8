pub mod Work
pub mod Core
pub mod Phase
