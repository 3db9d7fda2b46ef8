pub mod Rounding
pub mod CapacityLemmas
pub mod Sublists
pub mod PlacesLemmas
