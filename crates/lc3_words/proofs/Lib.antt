-- The proofs of the statements in specs/Theorems.antt, and the laws that the functions' proofs cite.
pub mod Theorems
mod Values
mod Alike
mod ByKind
