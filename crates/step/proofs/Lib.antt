-- A law that the functions' proofs cite.
mod FetchLaws
