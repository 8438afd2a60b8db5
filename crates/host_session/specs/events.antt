-- One event of a run: its source, what it does and counts, and the receiver of its reply.
pub mod Events
pub mod Counted
pub mod Quiet
pub mod OneEvent
pub mod Instants
pub mod Within
pub mod Asking
pub mod Telling
