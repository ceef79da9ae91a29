-- What a host's calls answer, in the terms of the crate `start`.
pub mod Answers
