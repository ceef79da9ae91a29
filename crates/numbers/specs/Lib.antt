-- What crosses to C: every number with its meaning, each answer in its place, and the buffers that calls leave.
pub mod Numbers
pub mod Answers
pub mod Buffers
pub mod Counts
pub mod Claims
pub mod Lines
