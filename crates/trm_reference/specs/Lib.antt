-- The reference machine, in reading order: geometry, what a programmer sees, what a word does, its clocks, one clock.
-- Paper: "What a programmer sees", "Clock by clock", "The plain machine of demand 3".
pub mod Geometry
pub mod Visible
pub mod Access
pub mod Execute
pub mod Interrupt
pub mod History
pub mod Charge
pub mod Trace
pub mod Reference
pub mod Tables
pub mod Claims
