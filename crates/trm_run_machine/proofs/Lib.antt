-- Proofs of the record's methods and of the loop over turns, one file for each function, and the laws they cite.
pub mod Laws
