-- Proofs of the functions that execute an instruction, one file each, and the laws of `execute` they cite.
pub mod Laws
