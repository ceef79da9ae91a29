-- What a reader of the theorems needs besides: what the cause of a step means, what a step reads, what M27.7
-- excludes, and what demand 3 rests on; demand 3, M27.7 and M28 in plain terms; when a call is accepted.
pub mod Entries
pub mod NoOtherReads
pub mod Excluded
pub mod Demand3
pub mod Continued
pub mod Plain
pub mod PlainRequests
pub mod Accepted
