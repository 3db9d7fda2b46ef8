pub mod Keys
pub mod KeyLaws
pub mod Holds
pub mod Tables
