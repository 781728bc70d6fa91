-- Laws about the arithmetic; each file uses those listed above it.
-- Definitions use signed numbers; the laws use naturals with an offset.
pub mod Modular
pub mod Signed
pub mod Sums
pub mod Flags
pub mod Rotation
pub mod Product
pub mod Multiplier
pub mod Division
pub mod Pair
pub mod Quotient
pub mod Floor
pub mod Bench
