-- Proofs of the loops over clocks, one file for each function, and the laws of a run in progress that they cite.
pub mod Laws
