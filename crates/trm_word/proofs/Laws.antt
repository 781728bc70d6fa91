-- Laws about words, one topic per file.
-- `Length`: a store's length as a power of two.
pub mod Length
