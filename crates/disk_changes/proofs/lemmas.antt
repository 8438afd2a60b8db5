pub mod lines
pub mod mended
