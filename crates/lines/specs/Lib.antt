-- M19 as a definition: Page, over the line of a word in the crate `line`. What is proved of pages is stated in
-- Theorems.
pub mod Page
pub mod Theorems
