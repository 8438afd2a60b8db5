pub mod cut
pub mod reached
pub mod sides
