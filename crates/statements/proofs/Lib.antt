-- The proofs: each by going through a step once, or by the laws of the crates below.
pub mod Entries
pub mod NoOtherReads
pub mod Excluded
pub mod Calm
pub mod Demand3
pub mod Continued
pub mod Plain
pub mod PlainRequests
pub mod Accepted
