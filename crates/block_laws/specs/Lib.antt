pub mod Lending
pub mod Worked
