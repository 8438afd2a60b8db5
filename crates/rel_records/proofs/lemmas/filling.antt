-- The room in a file's last blocks is filled.
pub mod Ending
pub mod ReadyToEnd
pub mod BeforeLast
pub mod Filled
pub mod FilledMoments
pub mod Fulls
pub mod Indexes
pub mod Standing
pub mod Tails
