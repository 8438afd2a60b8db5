-- The definitions of this crate.
pub mod Deletes
pub mod Entries
pub mod Faults
pub mod Formats
pub mod Frees
pub mod Names
pub mod NewNames
pub mod Patches
pub mod PutWrites
pub mod Puts
pub mod Renames
