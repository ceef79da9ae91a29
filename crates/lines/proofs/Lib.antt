-- The proofs of the statements in specs/Theorems.antt, and the laws that the functions' proofs cite.
mod Answering
pub mod PageLaws
