-- The worked files hold: each of them is computed.
pub mod ObjectExamples
pub mod StartExamples
