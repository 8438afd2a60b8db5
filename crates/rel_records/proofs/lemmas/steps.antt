-- A file takes one block more.
pub mod Added
pub mod Adding
pub mod Before
pub mod Committing
pub mod Counting
pub mod FullSides
pub mod LaidOut
pub mod LastBlocks
pub mod Linked
pub mod Others
pub mod Owned
pub mod Preparing
pub mod Sided
pub mod Taking
