-- The examples of lent buffers.
pub mod Examples
