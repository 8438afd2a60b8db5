pub mod basic
pub mod bytes
pub mod columns
pub mod petscii
pub mod scripts
pub mod Handed
pub mod Named
pub mod Numbers
