-- PETSCII as text of Unicode, also on one line between quotation marks, and names of files for the entries of a disk.
pub mod Characters
pub mod FileNames
pub mod Quoted
pub mod Typing
