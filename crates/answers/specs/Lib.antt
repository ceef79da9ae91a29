-- What hosts are answered.
pub mod Answer
