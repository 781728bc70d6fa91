-- The laws that the proofs of the exported calls share.
-- Nothing here need be read to know what is claimed.
pub mod Laws
