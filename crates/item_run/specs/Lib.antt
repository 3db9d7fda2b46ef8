pub mod Seats
pub mod ItemRows
pub mod Writing
pub mod Items
