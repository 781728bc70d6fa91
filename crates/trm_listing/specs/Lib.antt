-- The definitions of the listing, in reading order.
-- Paper: "Images and the listing program".
pub mod Listing
pub mod Examples
pub mod Rest
pub mod Loaded
pub mod Pieces
pub mod Claims
