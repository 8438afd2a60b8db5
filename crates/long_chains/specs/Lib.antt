pub mod Chains
pub mod Sectors
