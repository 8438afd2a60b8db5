-- The two files read and judged.
pub mod Judging
pub mod Readings
pub mod Search
pub mod TableEntries
pub mod TillTables
pub mod NewResults
pub mod StockTables
pub mod JudgedTills
pub mod Judgments
