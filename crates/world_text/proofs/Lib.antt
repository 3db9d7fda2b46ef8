pub mod Appended
pub mod Elements
pub mod RowText
pub mod Places
pub mod WorldLines
pub mod Listing
