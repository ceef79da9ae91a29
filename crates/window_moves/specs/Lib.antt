-- What the look before a step promises.
pub mod WindowMoves
