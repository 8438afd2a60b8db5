-- Sectors and their owners.
pub mod Claims
pub mod Clashes
pub mod Counting
pub mod Ranks
pub mod Marking
pub mod Numbers
