-- The test of a claim in code: what it answers (Finding), what is concluded where nothing is wrong (Answer), and that
-- what is found wrong is wrong (Wrong).
pub mod Finding
pub mod Found
pub mod Answer
pub mod Wrong
