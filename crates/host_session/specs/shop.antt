-- Which shop an image is, and what writes make of it.
pub mod Files
pub mod Shop
pub mod Blank
pub mod Putting
pub mod Growing
pub mod Found
pub mod Selecting
pub mod Puts
pub mod Completing
pub mod LoadedShop
pub mod Channels
