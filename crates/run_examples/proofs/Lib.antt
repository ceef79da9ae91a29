-- The worked calls hold: each of them is computed.
pub mod Examples
pub mod LogExamples
pub mod TwoStarts
pub mod SecondEditionRuns
pub mod AlteredWordRuns
