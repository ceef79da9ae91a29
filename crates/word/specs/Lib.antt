-- Instruction words (M4, M11.3, M21), as definitions: Field, Reading, Writing, Range, FixedBits and Mask. What is
-- proved of them is stated in Theorems.
pub mod Field
pub mod Reading
pub mod Writing
pub mod Range
pub mod FixedBits
pub mod Mask
pub mod Theorems
