-- The laws behind the proofs of this crate, and the value of its claims.
-- Nothing here need be read to know what is claimed.
pub mod Laws
pub mod Theorems
