-- The laws of cached steps one after the other.
pub mod WindowLoopLaws
