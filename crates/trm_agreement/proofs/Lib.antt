-- The proofs of demand 3 and of the claims around it.
-- Nothing here need be read to know what is claimed.
pub mod Laws
pub mod Theorems
