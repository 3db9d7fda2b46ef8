pub mod Child
pub mod Place
pub mod Chain
pub mod Order
pub mod Roots
