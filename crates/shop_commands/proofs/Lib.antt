pub mod Examples
pub mod FreshShops
pub mod Lines
pub mod FileChains
pub mod FileTurns
pub mod FileEnds
pub mod FileScripts
pub mod Formats
pub mod PlayEnds
pub mod Replies
mod Showings
