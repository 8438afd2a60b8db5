pub mod Cvt
pub mod Entries
pub mod Long
pub mod Marked
pub mod Reached
pub mod Types
