pub mod Held
pub mod shop
pub mod session
pub mod events
pub mod runs
