-- The lemmas, by what they are about.
pub mod logged
