-- The lemmas, by what they are about.
pub mod lists
pub mod chains
pub mod layouts
pub mod map
pub mod records
pub mod growth
pub mod counts
pub mod kept
pub mod blank
pub mod whole
