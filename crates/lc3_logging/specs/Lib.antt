-- What hosts are answered by a logged run.
pub mod LoggedAnswer
