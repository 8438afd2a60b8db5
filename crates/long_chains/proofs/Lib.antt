-- The lemmas.
pub mod Inside
pub mod Misread
pub mod Sizes
pub mod Walked
