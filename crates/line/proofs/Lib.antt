-- The proofs of the statements in specs/Theorems.antt, and the laws that the functions' proofs cite.
mod ShapeLaws
pub mod ReadingBack
pub mod DistinctLines
pub mod LongestLine
pub mod Examples
