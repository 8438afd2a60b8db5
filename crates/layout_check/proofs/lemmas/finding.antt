-- The file of an entry is found, and the survey goes from entry to entry.
pub mod Assembly
pub mod ClaimedBlocks
pub mod Entries
pub mod Finding
pub mod Listed
pub mod Pointers
pub mod Progress
pub mod Roots
pub mod SideWalks
pub mod SurveySteps
pub mod Walked
