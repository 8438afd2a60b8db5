pub mod ColumnLines
pub mod Refusals
pub mod Stores
pub mod Storing
pub mod TypedLines
