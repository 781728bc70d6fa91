-- Proofs of look, copy and watch, one file for each function, and the laws they cite.
pub mod Laws
