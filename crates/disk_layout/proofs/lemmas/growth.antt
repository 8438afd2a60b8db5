-- A file, or the directory, gets longer.
pub mod Commit
pub mod GrowthRecords
pub mod LongerDirectory
pub mod NewSide
pub mod Refills
pub mod SideWrites
