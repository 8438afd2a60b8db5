-- Scripts: the bytes of a file, cut into lines, and the event in each line.
pub mod Lines
pub mod Resets
