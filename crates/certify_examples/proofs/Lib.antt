-- The answers are as the rows say: each of them is computed.
pub mod Examples
