-- What a call on the drive makes of the two files.
pub mod SameEntries
pub mod Layers
pub mod Mended
pub mod Calls
pub mod PlacedRecords
pub mod Positions
pub mod Selection
pub mod Channels
pub mod Records
pub mod IntentCards
pub mod IntentAnswers
pub mod Completions
