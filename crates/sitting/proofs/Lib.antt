-- A sitting tells nothing of secret words.
pub mod Runs
pub mod Values
pub mod Table
pub mod Invariant
pub mod Routines
pub mod UserMode
pub mod Interrupts
pub mod Certified
pub mod MonitorWords
pub mod Ours
pub mod HandedIn
