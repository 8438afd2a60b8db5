-- Chains of sectors, and the directory's.
pub mod Chains
pub mod Counting
pub mod Directories
pub mod Names
pub mod Walks
