-- What is found of a file, and read of it.
pub mod Block
pub mod Kept
pub mod Named
pub mod Sides
