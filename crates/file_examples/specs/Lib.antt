-- Object files that are read, written and started, each of which would be answered otherwise without the rule it is
-- for.
pub mod ObjectExamples
pub mod StartExamples
