-- The outcome of look, copy and watch on every input.
-- Paper: "A look gives one word of data memory .. a copy fills a buffer with all of it"; "the watch names a clock, from 0, ..".
pub mod Promises
