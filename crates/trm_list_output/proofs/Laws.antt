-- The laws, a topic per file.
-- `Written`: what a writer has taken, piece by piece.
pub mod Written
