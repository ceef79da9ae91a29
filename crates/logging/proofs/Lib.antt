-- The laws of logged runs, and the proofs of the theorems.
pub mod LoggedLaws
pub mod BesideTheRun
pub mod LogSplits
pub mod TwoLogs
pub mod WithRoom
