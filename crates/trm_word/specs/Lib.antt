-- The definitions of words, in reading order.
-- Paper: "What a programmer sees", fields, conditions, addresses; "Clock by clock", the base charges.
pub mod Fields
pub mod Condition
pub mod Address
pub mod Charge
pub mod Claims
