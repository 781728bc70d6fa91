-- Laws for the methods of the record, one topic per file: accepted calls, a clock as a run of one, steps.
-- Idea: the functions' proofs cite these laws and never unfold `clock_of`.
pub mod Accepted
pub mod Shape
pub mod One
pub mod Begun
pub mod Step
pub mod Quiet
