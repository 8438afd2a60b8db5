-- An image is a shop, and what one write makes of it.
pub mod Lists
pub mod Overlays
pub mod Shops
pub mod Moments
pub mod Outcomes
pub mod Steps
pub mod BlankShops
