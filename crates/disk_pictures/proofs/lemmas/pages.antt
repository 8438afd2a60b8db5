pub mod PageMarkup
pub mod PetsciiMarkup
pub mod PosterMarkup
