-- What an image determines, and what no sound one has.
pub mod Agree
pub mod Exact
pub mod Layouts
pub mod Frames
pub mod SidesAt
pub mod Twice
pub mod Unclean
pub mod Uniques
pub mod Unsound
