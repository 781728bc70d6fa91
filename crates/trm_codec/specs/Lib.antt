-- The definitions of decode and encode, in reading order.
-- Paper: "What a programmer sees", the formats; "Where calls are turned down", rows 3 and 10.
pub mod Operations
pub mod Decode
pub mod Encode
pub mod Unused
pub mod Refusals
pub mod Fields
pub mod Plain
pub mod Promises
pub mod Worked
pub mod Claims
