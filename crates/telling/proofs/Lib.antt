-- Nothing is left out of what is told; and the rows, computed.
pub mod Whole
pub mod ToldExamples
