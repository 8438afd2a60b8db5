pub mod Blocks
pub mod Bytes
pub mod Calls
pub mod Commits
pub mod LaidOut
pub mod Begun
pub mod Marked
