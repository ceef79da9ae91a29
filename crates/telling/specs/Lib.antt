-- What is told of the step that a run would make next; that nothing is left out; and worked rows.
pub mod Told
pub mod Whole
pub mod ToldExamples
