-- Demand 3, in reading order: the log of a machine over a list of calls, the calls, what they return, the book of a log and its audit,
-- demand 3 itself (read specs/Demand.antt first), the plain machine alone, and the claims.
-- Paper: "The plain machine of demand 3 ..", "Demand 3 is one statement on the whole list".
pub mod Log
pub mod Calls
pub mod CallContracts
pub mod Exchange
pub mod Book
pub mod Audit
pub mod Demand
pub mod Plain
pub mod Claims
