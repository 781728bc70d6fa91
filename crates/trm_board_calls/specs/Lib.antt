-- The board with the core of document 01 inside, in definitions, in reading order: the cores, the refusals, a run, the promises of the
-- calls, and what the inner functions ask and keep.
-- Request A1.
pub mod Cores
pub mod Refusals
pub mod Run
pub mod Coded
pub mod Running
pub mod Promises
pub mod Claims
