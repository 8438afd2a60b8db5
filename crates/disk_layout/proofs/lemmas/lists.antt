-- Lists, tables and sums.
pub mod Count
pub mod Listed
pub mod Lists
pub mod Marks
pub mod Once
pub mod Sums
