-- Slots of the directory, free and used.
pub mod AnyEntry
pub mod Entered
pub mod FullSlots
pub mod NewSlots
pub mod Rooms
