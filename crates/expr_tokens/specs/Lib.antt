pub mod Lexing
pub mod Seen
pub mod Tokens
