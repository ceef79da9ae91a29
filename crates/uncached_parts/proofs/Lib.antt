-- The laws of a fast step outside the windows.
pub mod StepLaws
