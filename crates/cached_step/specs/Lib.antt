-- What a step that is handed windows answers and leaves, and what is proved of it.
pub mod CachedStep
pub mod Theorems
