-- Rows that a wrong definition would make false. Steps from other records; the device registers, by asking each
-- address; each trap vector, byte, register and priority in turn; what the theorems speak of; the word that a log
-- tells; calls of a run.
pub mod OtherRecords
pub mod Registers
pub mod Every
pub mod Notions
pub mod Logged
pub mod Calls
