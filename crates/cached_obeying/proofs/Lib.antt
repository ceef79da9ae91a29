-- The law of what is delivered, with the windows.
pub mod WindowLaws
