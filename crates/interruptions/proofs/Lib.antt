-- A routine that was interrupted on the way goes on where it was.
pub mod Leaving
pub mod Following
pub mod Standing
pub mod Chain
pub mod Ways
pub mod Resuming
pub mod GoesOn
pub mod Narrowing
pub mod KeyWait
pub mod KeyEnds
pub mod GetcAndIn
