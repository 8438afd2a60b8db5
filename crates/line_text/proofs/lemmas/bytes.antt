-- Bytes as text that an editor or a spreadsheet takes, and records as lines of such text, read back as they were.
pub mod Behind
pub mod Displays
pub mod Rooms
pub mod Stored
pub mod Texts
pub mod Trims
