-- The text of operands (M16): Characters and Operands. Placing and Writing serve the contracts of functions.
pub mod Characters
pub mod Operands
pub mod Placing
pub mod Writing
