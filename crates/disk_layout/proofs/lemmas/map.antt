-- The map of free sectors.
pub mod Bits
pub mod OverTracks
pub mod FreeBlocks
pub mod Maps
pub mod Picking
