pub mod Given
pub mod Made
pub mod MayRead
pub mod Room
pub mod Types
