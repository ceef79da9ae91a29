-- What the lists of words read and written in a step's outcome mean; and what follows for words that a step does not
-- read.
pub mod Footprint
pub mod Altered
