pub mod Notched
