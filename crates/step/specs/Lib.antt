-- What a fetch and a whole step answer and leave.
pub mod Taken
