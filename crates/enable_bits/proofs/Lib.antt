pub mod MaskLemmas
pub mod Numbers
