-- The laws of the loop over the steps.
pub mod LoopLaws
