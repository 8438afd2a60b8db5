-- A record is written, in one block or across two.
pub mod Across
pub mod Bytes
pub mod Composed
pub mod Grown
pub mod OneBlock
pub mod Patches
pub mod Places
pub mod Puts
pub mod Recorded
pub mod There
pub mod TwoBlocks
pub mod Writings
