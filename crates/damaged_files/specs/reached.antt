-- What can still be read of a damaged disk, or of an image of another size.
pub mod Directories
pub mod Names
pub mod Nearness
pub mod Owned
pub mod Reached
pub mod Sharing
pub mod Sizes
pub mod Types
