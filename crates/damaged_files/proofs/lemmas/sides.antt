-- Side sectors of relative files, built anew from the files' chains.
pub mod Frames
pub mod Mixes
pub mod Results
pub mod Walks
