-- The proofs of what is claimed of the board's calls.
-- Nothing here need be read to know what is claimed.
pub mod Laws
pub mod Theorems
