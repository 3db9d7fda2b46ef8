pub mod Count
pub mod End
pub mod Files
pub mod Memory
pub mod Sink
pub mod Status
pub mod Store
pub mod Text
