-- The record of the code as the record of the definitions, the outcomes of its methods, and which method the next clock is.
-- Paper: "Clock by clock"; what a clock does is defined by trm_core's `clock_of`.
pub mod Machine
pub mod Next
pub mod Quiet
