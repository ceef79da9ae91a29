-- What an instruction of a monitor leads to.
pub mod Ways
pub mod Pushed
