-- The laws, a topic per file.
-- `Wrote`: text appended to text; `Digits`: digits written from the lowest one.
pub mod Wrote
pub mod Digits
