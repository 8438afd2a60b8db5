-- A shop served over a log: the lines at hand are handled in memory, made durable by one sync, and then answered.
pub mod BatchEnds
pub mod Bringing
pub mod Chunks
pub mod Ends
pub mod Handled
pub mod Kept
pub mod Leaving
pub mod Lines
pub mod Opened
pub mod Reported
pub mod Staying
pub mod UnderWay
