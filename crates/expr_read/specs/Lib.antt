pub mod PrintedTexts
pub mod Printing
pub mod ScopeOf
