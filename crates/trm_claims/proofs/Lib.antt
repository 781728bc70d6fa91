-- The value of the project's claims, and the proof of what this crate claims.
-- Nothing here need be read to know what is claimed.
mod Pieces
pub mod Theorems
