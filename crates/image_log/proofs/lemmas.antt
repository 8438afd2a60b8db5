-- The lemmas, by what they are about.
pub mod life
pub mod Readings
