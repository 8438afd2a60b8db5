pub mod Lives
pub mod OneList
pub mod Goods
pub mod Rest
pub mod Tills
pub mod Worked
pub mod Chapters
