-- A shop served over a log: the lines at hand are handled in memory, made durable by one sync, and then answered.
pub mod Batches
pub mod Handling
pub mod Keeping
pub mod Memory
pub mod Reporting
pub mod Serves
