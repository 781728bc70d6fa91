-- The laws that the proofs of this crate use, and the proof of its claims.
-- Nothing here need be read to know what is claimed.
pub mod Laws
pub mod Theorems
