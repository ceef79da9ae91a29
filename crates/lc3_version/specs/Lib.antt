-- The version of the host interface.
pub mod Version
