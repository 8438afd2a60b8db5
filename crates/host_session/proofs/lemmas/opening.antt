-- A shop's disk is opened, and brought to rest.
pub mod Starts
pub mod Tills
pub mod Unwritten
pub mod Recovered
pub mod Migrated
pub mod AtRest
pub mod Opens
