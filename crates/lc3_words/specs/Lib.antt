-- What a host's calls answer, as definitions: Flat, Unflat, Range and Writing. What is proved of them is stated in
-- Theorems. Clamping serves only the contracts of private functions.
pub mod Flat
pub mod Unflat
pub mod Range
pub mod Writing
pub mod Theorems
pub mod Clamping
