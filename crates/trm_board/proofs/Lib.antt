-- The proofs of what is claimed of the board beside any core.
-- Nothing here need be read to know what is claimed.
pub mod Laws
pub mod Theorems
