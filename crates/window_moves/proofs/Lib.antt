-- The laws of the look before a step.
pub mod WindowMovesLaws
