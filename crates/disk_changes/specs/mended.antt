pub mod Kinds
pub mod Rebuilds
pub mod Repairs
