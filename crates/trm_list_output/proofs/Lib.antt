-- The laws behind the proofs of this crate.
-- Nothing here need be read to know what is claimed.
pub mod Laws
