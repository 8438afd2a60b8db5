-- A file gets longer.
pub mod Growth
pub mod Next
pub mod Preparing
pub mod Steps
