-- The lemmas.
pub mod Long
pub mod Naming
pub mod Parts
