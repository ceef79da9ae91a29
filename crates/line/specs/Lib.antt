-- M16 as a definition: Line, over the text of statements in the crates `text` and `mnemonics`. What is proved of
-- lines is stated in Theorems. Shapes serves only the contracts of private functions.
pub mod Line
pub mod Theorems
pub mod Examples
pub mod Shapes
