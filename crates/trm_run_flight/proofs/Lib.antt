-- Proofs of the turns of a word in flight, one file for each function, and the law they cite.
pub mod Laws
