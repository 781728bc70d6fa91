-- The laws that the proofs of the exported calls share, on payloads.
-- Nothing here need be read to know what is claimed.
pub mod Payload
