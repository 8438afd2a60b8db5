-- Scripts: the bytes of a file, cut into lines, and the event in each line.
pub mod Examples
pub mod Grammar
pub mod Lines
pub mod Pieces
pub mod Plain
pub mod Resets
