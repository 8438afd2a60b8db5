pub mod lemmas
pub mod OrderExamples
pub mod ToldExamples
