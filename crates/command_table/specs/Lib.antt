pub mod Grammar
pub mod Rows
