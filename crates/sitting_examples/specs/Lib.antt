-- Sittings that would tell of a secret word, or alter one, without a premise of the theorems; and the words that they
-- speak of, counted.
pub mod Examples
pub mod FileExamples
