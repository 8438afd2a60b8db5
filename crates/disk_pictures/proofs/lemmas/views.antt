pub mod Marks
pub mod Trimmed
pub mod Viewed
