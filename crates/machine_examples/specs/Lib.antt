-- Worked steps that read their way through most of memory.
pub mod HighAddresses
pub mod UserMode
