-- The worked steps hold: each of them is computed.
pub mod HighAddresses
pub mod UserMode
