-- Records as columns of a spreadsheet, a column for each field or at fixed positions, read back as they were.
pub mod Columns
pub mod Marks
pub mod Pieces
pub mod Positions
