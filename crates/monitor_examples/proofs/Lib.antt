-- The premises of the theorems on the routines are met by worked calls: each of them is computed.
pub mod Examples
pub mod PremisesCanBeMet
