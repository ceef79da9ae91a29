-- The laws of words and bytes, of memory with words in place of a range and of the calls; then the proofs of the
-- theorems.
pub mod WordLaws
pub mod Acceptance
pub mod CallLaws
pub mod PlacedLaws
pub mod RefusedCalls
pub mod RoundTrip
pub mod Edges
