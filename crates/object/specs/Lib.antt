-- Object files: what a file is, and the two calls with their refusals; then what is proved of them.
pub mod File
pub mod Calls
pub mod Accepted
pub mod RefusedCalls
pub mod RoundTrip
pub mod Edges
