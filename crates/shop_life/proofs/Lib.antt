pub mod Goods
pub mod Kept
pub mod Later
pub mod Numbers
mod Repeats
pub mod Rest
mod Seen
mod Teeth
mod Tills
mod Worked
mod Chapters
