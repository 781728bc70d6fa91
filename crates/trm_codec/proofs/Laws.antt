-- Laws about decode and encode, one topic per file.
-- `Masks`: a word under a mask of bit ranges. `Operations`: numbers and operations are inverse. `Numbers`: refusal numbers and values.
-- `Recode`, `RoundTrip`: the two inverses of decode and encode. `Fields`, `Plain`: the same for instructions as plain numbers.
pub mod Masks
pub mod Operations
pub mod Numbers
pub mod Recode
pub mod RoundTrip
pub mod Fields
pub mod Plain
