-- The monitor's words, what the calls on them leave, and what is promised of the routines.
pub mod Vectors
pub mod Routines
pub mod Install
pub mod Uses
pub mod Keys
pub mod Out
pub mod Calls
pub mod OutBothModes
pub mod Stop
pub mod Beside
pub mod Words
pub mod Back
pub mod Getc
pub mod Halt
pub mod Puts
pub mod In
pub mod Putsp
