-- The lemmas, by what they are about.
pub mod Below
pub mod cut
pub mod reached
pub mod sides
