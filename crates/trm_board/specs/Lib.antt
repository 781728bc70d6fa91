-- The board beside any core, in definitions, in reading order: the core as the board sees it, one clock, the ranges of the board's fields,
-- what happens in a clock, what is claimed of a run, computed cases, and the claims.
-- Request A1: "as a crate of its own that sees the core through its contracts".
pub mod Core
pub mod Board
pub mod Rule
pub mod Turns
pub mod Course
pub mod Cases
pub mod Claims
