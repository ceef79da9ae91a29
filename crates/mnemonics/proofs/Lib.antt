-- The law of BR's letters, which the functions' proofs cite, here and in the crate above.
pub mod Codes
