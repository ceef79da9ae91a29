-- What hosts are told of the next step.
pub mod ToldAnswer
