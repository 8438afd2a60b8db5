pub mod Shaded
pub mod SheetMarkup
pub mod TileNumbers
