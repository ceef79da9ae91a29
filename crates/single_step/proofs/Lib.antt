-- The laws of a step that is made by itself.
pub mod SingleLaws
