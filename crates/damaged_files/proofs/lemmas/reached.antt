-- What can still be read of a damaged disk, or of an image of another size.
pub mod Counts
pub mod EntryBlocks
pub mod Filtered
pub mod Lengths
pub mod Paddings
pub mod ReadSoFar
pub mod Sized
pub mod Walked
