-- The proof, in order: any two machines in step, the history, the relation, one clock, one log; what a clock adds to the book, the audit
-- of the log; what the calls return, and demand 3.
-- Idea: the reference machine is the record's visible part and counts with a flat memory, a history and a number of clocks left.
pub mod Simulate
pub mod History
pub mod Relation
pub mod Finish
pub mod Moves
pub mod WriteBack
pub mod Refill
pub mod First
pub mod Bounds
pub mod Clock
pub mod Accepted
pub mod SameLog
pub mod Log
pub mod Numbers
pub mod Interrupts
pub mod Devices
pub mod Counts
pub mod Book
pub mod Audit
pub mod Runs
pub mod Contracts
pub mod Witness
pub mod Own
pub mod Exchange
pub mod Typed
pub mod Demand
