-- Records as columns of a spreadsheet, a column for each field or at fixed positions, read back as they were.
pub mod Cut
pub mod CutBack
pub mod CutPieces
pub mod Ends
pub mod Fields
pub mod PiecesBack
pub mod Places
pub mod Refused
pub mod Zeros
