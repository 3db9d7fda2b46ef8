pub mod Fronts
pub mod Lexed
pub mod Signs
pub mod Texts
pub mod Unique
