-- The laws, a topic per file.
-- `Held`: held clocks; `Along`: run by run; `Whole`: the whole output; `Load`: program and store; `Piece`: one piece;
-- `Examples`: computed listings.
pub mod Held
pub mod Along
pub mod Whole
pub mod Load
pub mod Piece
pub mod Examples
