-- The laws of the record that is answered, and the proofs of the theorems.
pub mod Opened
pub mod RecordLaws
pub mod UserLaws
pub mod Theorems
pub mod LoadedWords
pub mod UserStart
