pub mod lemmas
pub mod Examples
pub mod SessionExamples
pub mod RunExamples
