-- Files of a disk that a lost sector cut short.
pub mod Chains
pub mod Entries
pub mod Shorts
pub mod Sides
pub mod Told
