-- Proofs of the record rule in code, one file for each function, and the laws they cite.
pub mod Laws
