-- The board's calls in one list, in reading order: the calls and the two boards, the contracts as plain facts, an exchange and its log,
-- what the log shows, and the claims.
-- Request A1; document 01: "Demand 3 is one statement on the whole list".
pub mod Calls
pub mod CallContracts
pub mod Exchange
pub mod Shown
pub mod Demand
pub mod Claims
