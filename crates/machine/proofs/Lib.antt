-- Laws of the machine's definitions, which the code's proofs and the theorems cite: single steps computed; words, tests
-- and devices; two steps side by side; what every step keeps, and what a log tells of it.
pub mod Opened
pub mod TimerTheorems
pub mod RuleExamples
pub mod SecondEditionExamples
pub mod Mistakes
pub mod WordLaws
pub mod Tests
pub mod DeviceLaws
pub mod MemoryParts
pub mod TwoAccesses
pub mod TwoSteps
pub mod StepLaws
pub mod CheckIsNeeded
pub mod InterruptRule
pub mod StepsAlike
pub mod RuleLaws
pub mod LogExamples
