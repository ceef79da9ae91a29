-- What cached steps that stay in their window promise.
pub mod WindowLoop
