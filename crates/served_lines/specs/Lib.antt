pub mod Printings
pub mod Readings
pub mod Services
pub mod Steps
pub mod Taken
