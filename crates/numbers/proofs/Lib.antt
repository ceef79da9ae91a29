-- The tables hold, by computing them.
pub mod Numbers
pub mod Answers
pub mod Buffers
pub mod Counts
pub mod Claims
pub mod Lines
