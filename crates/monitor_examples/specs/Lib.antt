-- A call of each routine that meets its theorem's premises.
pub mod Examples
