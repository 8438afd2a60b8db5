-- Slots of the directory, and their block counts.
pub mod Counts
pub mod CountWrites
pub mod Faces
pub mod Recount
pub mod Recounts
pub mod Slots
