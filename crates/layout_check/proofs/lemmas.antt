-- The lemmas, by what they are about.
pub mod finding
pub mod owners
pub mod judging
pub mod mending
pub mod repairing
