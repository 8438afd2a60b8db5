pub mod lemmas
mod Appended
mod Brought
pub mod Commits
mod Counting
pub mod Ends
mod Filled
mod Images
mod Known
mod Laid
pub mod Marked
pub mod Moments
mod Numbers
pub mod Remembered
mod Runs
mod Sealed
pub mod Torn
pub mod TornEnds
mod Touches
