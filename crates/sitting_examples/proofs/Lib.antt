-- The worked sittings hold: each of them is computed.
pub mod Examples
pub mod FileExamples
