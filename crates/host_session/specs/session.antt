-- What opening refuses, what a session holds, and what a message does.
pub mod Opening
pub mod Handling
pub mod Standing
pub mod Keeping
pub mod Answering
pub mod Handled
pub mod Opened
pub mod Settling
pub mod Mends
