-- The proofs of the statements in specs/Theorems.antt, and the laws that the functions' proofs cite.
pub mod SignedFields
pub mod Refusals
pub mod Opcodes
pub mod Ranges
pub mod ReadAfterWrite
pub mod WriteAfterRead
pub mod MaskLaws
pub mod MaskBits
pub mod Examples
pub mod Casts
