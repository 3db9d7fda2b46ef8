pub mod Steps
pub mod FaultLemmas
pub mod UseLemmas
pub mod NameLemmas
pub mod LabelLemmas
pub mod SiblingLemmas
pub mod RowLemmas
