-- Load and start together: what the call answers and leaves; then what is proved of it.
pub mod Start
pub mod Theorems
pub mod UserStart
