-- What is proved of the cached step.
pub mod Theorems
pub mod TurnLaws
