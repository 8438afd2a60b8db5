-- The lemmas, by what they are about.
pub mod reading
pub mod writing
pub mod growth
pub mod filling
pub mod steps
pub mod directory
pub mod creation
pub mod whole
pub mod Kept
pub mod Told
pub mod Usable
