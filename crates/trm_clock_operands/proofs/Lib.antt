-- Proofs of the functions that read operands and addresses, one file each, and a law about device numbers.
pub mod Laws
