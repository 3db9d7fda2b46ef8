pub mod KeyLemmas
pub mod ListLemmas
pub mod FirstFaultLemmas
pub mod TypeLemmas
