-- What the words written by a step are told by.
pub mod Writes
