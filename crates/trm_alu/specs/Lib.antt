-- The definitions of the arithmetic, in reading order.
-- Paper: "What a programmer sees", operations 0-10; "Clock by clock", multiplier and divider.
pub mod Word
pub mod Multiply
pub mod Divide
pub mod Pair
pub mod Results
pub mod Flags
pub mod Bench
pub mod Claims
