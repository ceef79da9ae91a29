-- The logged run of M26, in the order of its rules; then what is proved of it, and worked logs.
pub mod Log
pub mod LoggedRun
pub mod LoggedCall
pub mod BesideTheRun
pub mod LogSplits
pub mod TwoLogs
