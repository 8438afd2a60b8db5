-- The lemmas, by what they are about.
pub mod basic
pub mod bytes
pub mod columns
pub mod digits
pub mod petscii
pub mod scripts
pub mod Handed
pub mod Named
