pub mod Order
pub mod Places
pub mod Asked
pub mod Named
pub mod Makers
pub mod Played
pub mod Players
pub mod Laws
