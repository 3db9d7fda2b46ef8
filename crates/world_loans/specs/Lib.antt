pub mod Plans
pub mod Returns
pub mod Fitting
