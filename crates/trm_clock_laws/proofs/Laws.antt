-- The laws of what a clock does and of its outcome, one topic per file.
-- Idea: the proofs of the functions of one clock cite these laws and never unfold `clock_of`.
pub mod Facts
pub mod Kinds
pub mod First
pub mod Flight
pub mod Last
pub mod Words
pub mod Worked
pub mod Late
