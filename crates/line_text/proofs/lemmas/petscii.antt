-- PETSCII as text of Unicode, also on one line between quotation marks, and names of files for the entries of a disk.
pub mod Names
pub mod Printed
pub mod Quoted
pub mod Typed
pub mod TextLines
