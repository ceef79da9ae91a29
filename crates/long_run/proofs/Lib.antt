-- The laws of the loop.
pub mod SteppingLaws
