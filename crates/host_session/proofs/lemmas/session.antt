-- A session answers a message.
pub mod Decisions
pub mod KeptItems
pub mod Keepings
pub mod KeepingCalls
pub mod Replies
pub mod Standings
pub mod Settled
pub mod NextCards
pub mod Handled
pub mod Answered
