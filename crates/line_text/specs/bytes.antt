-- Bytes as text that an editor or a spreadsheet takes, and records as lines of such text, read back as they were.
pub mod Lines
pub mod Texts
