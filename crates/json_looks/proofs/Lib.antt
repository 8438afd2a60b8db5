pub mod Depths
pub mod Gathered
pub mod Openings
pub mod ShopDepths
pub mod Whole
