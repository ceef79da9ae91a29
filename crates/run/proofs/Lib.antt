-- The laws of runs and calls, and the proofs of the theorems.
pub mod Opened
pub mod RefusedCalls
pub mod RunLaws
pub mod StandingLaws
pub mod RunKeeps
pub mod Acceptance
pub mod RefusalLaws
pub mod KeyTimes
pub mod KeyLists
pub mod Continuing
pub mod Bounds
pub mod CallExamples
pub mod RelatedRuns
pub mod Noninterference
pub mod SecondEdition
pub mod AlteredWords
pub mod OneAlteredWord
