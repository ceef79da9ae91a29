-- The laws of the words that a step touches, each by the parts of a step and by either edition; and what follows from
-- them for words that are altered between two memories.
pub mod FootprintLaws
pub mod ReadWords
pub mod AlteredWords
