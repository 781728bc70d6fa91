-- The preconditions of one multiplier or divider step, and the packed form of the registers in flight.
-- Paper: "Phase 1 needs operation 8 or 9".
pub mod Steps
pub mod Unit
