pub mod comparison
pub mod pages
pub mod sheets
pub mod views
