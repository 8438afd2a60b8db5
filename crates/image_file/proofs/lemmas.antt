-- The lemmas, by what they are about.
pub mod Unwritten
pub mod keeping
pub mod replacing
