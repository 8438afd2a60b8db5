-- Side sectors of relative files, built anew from the files' chains.
pub mod Compared
pub mod Named
pub mod Rebuilt
pub mod Taken
