-- The proofs of the board's calls.
-- Nothing here need be read to know what is claimed.
pub mod Laws
pub mod Theorems
