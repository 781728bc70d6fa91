-- The clocked machine, in reading order: record, clock, record rule, refusals, run, look and watch; then test cases and claims.
-- Paper: "Clock by clock"; "Where calls are turned down".
pub mod Record
pub mod Clock
pub mod Rule
pub mod Refusals
pub mod Run
pub mod Observe
pub mod Scenario
pub mod Refused
pub mod Claims
