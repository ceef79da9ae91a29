-- What the private functions answer, for their contracts; the definition of writing is in crate `word`.
pub mod Encoding
