-- The proofs of what is claimed of the device that a clock reads.
-- Nothing here need be read to know what is claimed.
pub mod Laws
pub mod Theorems
