-- The definitions of a run's rows, in reading order.
-- Paper: "Images and the listing program".
pub mod Rows
pub mod Onward
