-- A claim about a monitor as a tool hands it over: numbers.
pub mod Encoding
pub mod Decoded
pub mod Changes
