-- The lemmas, by what they are about.
pub mod rescue
