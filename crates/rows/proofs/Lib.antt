-- The rows hold, by computing them.
pub mod OtherRecords
pub mod Registers
pub mod Every
pub mod Notions
pub mod Logged
pub mod Calls
