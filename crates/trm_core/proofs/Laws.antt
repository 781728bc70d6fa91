-- Laws about the clocked machine, one topic per file.
-- Other proofs use these and never unfold the clock.
pub mod Fit
pub mod Kind
pub mod Deaf
pub mod Rule
pub mod Phases
pub mod Goes
pub mod Table
pub mod Kept
pub mod Reset
pub mod Limits
pub mod Scenario
pub mod Refused
pub mod Rows
