-- Worked calls, each of which would end otherwise without the rule it is for; and that the premises of the theorems on
-- two runs can be met.
pub mod Examples
pub mod LogExamples
pub mod TwoStarts
pub mod SecondEditionRuns
pub mod AlteredWordRuns
