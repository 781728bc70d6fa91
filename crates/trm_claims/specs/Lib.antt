-- Every claim of the project.
-- Paper: the three demands.
pub mod Pieces
pub mod Claims
