-- The proof, in order: two boards in step, what a log shows (its turns, its core's part), the contracts, the returns of the calls and their
-- numbers, what is claimed of an exchange, its witness, refused calls, prefixes of runs.
-- Idea: two cores in step make two boards in step; what a run of the board shows is claimed of its turns alone.
pub mod InStep
pub mod Reads
pub mod Turns
pub mod Cores
pub mod Contracts
pub mod Returns
pub mod Numbers
pub mod Exchange
pub mod Witness
pub mod Refused
pub mod Prefix
