-- A run in progress: its state, and what a turn (some clocks in one go) requires and ensures.
-- Paper: "A run carries out one clock per line byte". Used in inner contracts only: no claim rests on it.
pub mod Reached
