-- An image that is written over a file.
pub mod Brought
pub mod Filled
pub mod Filling
pub mod Indices
pub mod Replacement
pub mod Sealing
pub mod Sinces
pub mod Spoiled
pub mod Spoiling
