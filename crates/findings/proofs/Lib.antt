-- The test of a claim: its laws, those of what is wrong first, what the numbers claim, what is concluded where nothing
-- is wrong, and that what is found wrong is wrong.
pub mod Laws
pub mod FindingLaws
pub mod Claimed
pub mod Answer
pub mod HandedIn
pub mod Wrong
