pub mod Words
pub mod Lines
pub mod ByPlace
pub mod Layout
pub mod Listed
