-- Files that keep the sectors of an image.
pub mod Begun
pub mod Kept
pub mod KeptOn
pub mod KeptSectors
pub mod KeptSizes
