-- The laws of the words that a step writes.
pub mod WriteLaws
