pub mod Faults
pub mod FreshShops
pub mod Images
pub mod Plays
pub mod Shops
pub mod Shows
pub mod DryRuns
