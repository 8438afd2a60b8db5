pub mod Calls
pub mod History
pub mod Rights
pub mod Worlds
