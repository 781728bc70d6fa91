-- Laws about the reference machine, one topic per file.
-- `Execute`: what executing a word or taking an interrupt preserves. `Comparisons`: branches after SUB. `Trace`: the clock history.
-- `Tables`: the tables hold.
pub mod Execute
pub mod Comparisons
pub mod Trace
pub mod Tables
