pub mod Replaced
pub mod Stages
