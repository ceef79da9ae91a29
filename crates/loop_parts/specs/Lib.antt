-- What the functions of the loop answer and leave.
pub mod Stepping
