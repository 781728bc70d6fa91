-- Proofs of the functions that compute the scalars after a clock, one file each, and the laws of a multiplier or divider step.
pub mod Laws
