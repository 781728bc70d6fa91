-- The cache: its lines, memory as seen through it, what each clock of a burst does, a whole burst, test cases, and the claims.
-- Paper: "The cache has 16 lines of 8 words, write-back"; "Each ten is two waits and eight words in rising order".
pub mod Cache
pub mod Copy
pub mod Steps
pub mod Claims
