-- What decides the tests of a call.
pub mod Tests
