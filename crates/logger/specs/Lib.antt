-- What the loop over the steps of a logged run answers.
pub mod Stepping
