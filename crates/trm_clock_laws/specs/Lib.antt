-- Pre- and postconditions of the functions of one clock: a record that keeps row 5, and a clock's outcome. No claim rests on these.
-- Paper: none; what a clock does is defined by trm_core's `clock_of`.
pub mod Good
pub mod Made
