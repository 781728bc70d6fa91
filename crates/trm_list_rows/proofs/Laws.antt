-- The laws, a topic per file.
-- `Flight`: a word in flight; `Text`: the text to be written, clock by clock; `Onward`: a listing continued; `Gone`: by several clocks.
pub mod Flight
pub mod Text
pub mod Onward
pub mod Gone
