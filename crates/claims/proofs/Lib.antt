-- Laws of claims as numbers.
pub mod StateLaws
pub mod Encoding
