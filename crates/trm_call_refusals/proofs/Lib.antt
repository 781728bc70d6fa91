-- Proofs of the refusals in code, one file for each function, and the laws they cite.
pub mod Laws
