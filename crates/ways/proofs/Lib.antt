-- Laws of TRAP in a routine.
pub mod JumpLaws
