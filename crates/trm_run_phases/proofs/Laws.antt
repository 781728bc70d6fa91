-- The laws of a run in progress, one topic per file.
-- Idea: the functions' proofs cite these laws and never unfold `clock_of`.
pub mod Adds
pub mod Free
pub mod Reached
pub mod Here
pub mod Ahead
pub mod Serial
pub mod Next
pub mod Did
