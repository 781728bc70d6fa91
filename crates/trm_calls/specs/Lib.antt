-- The outcome of reset, clock and run on every input.
-- Paper: "Where calls are turned down"; "The clock call takes the record and returns it".
pub mod Promises
