-- A class's monitor that is certified, and others that are not: what `certify` answers, computed.
pub mod Monitor
pub mod Examples
