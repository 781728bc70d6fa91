-- General laws, one topic per file.
-- `Match`: the number in the default arm of a match. `Table`: one computed test proves every row of a table. `Tests`: Bool tests.
pub mod Match
pub mod Table
pub mod Tests
