pub mod TableLemmas
pub mod SlotLemmas
pub mod AliveSlot
pub mod Ahead
