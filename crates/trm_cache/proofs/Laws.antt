-- Laws about the cache, one topic per file.
-- Other proofs use these and never unfold the definitions of the cache.
pub mod Lines
pub mod Cache
pub mod Bursts
pub mod Copy
pub mod Tables
pub mod Dirty
pub mod Parts
