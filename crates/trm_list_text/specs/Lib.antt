-- The definitions of the listing's text, in reading order.
-- Paper: "Images and the listing program", the fields of a row.
pub mod Numbers
pub mod Rows
pub mod Wrote
pub mod Claims
