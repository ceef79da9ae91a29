-- What a routine does that was interrupted on the way.
pub mod GoesOn
pub mod Reads
