-- A file is found, and a record is read.
pub mod Counts
pub mod Found
pub mod Keeping
pub mod Lent
pub mod Lookups
pub mod Opened
pub mod Readings
pub mod Starts
