-- Sectors are made right and written.
pub mod EntryMends
pub mod Makings
pub mod MapMends
pub mod Mendings
pub mod Ones
pub mod SideMends
