-- The proofs of the serial line's claims.
-- Nothing here need be read to know what is claimed.
pub mod Laws
pub mod Theorems
