-- The laws of look, copy and watch: of their loops, and of what acceptance or refusal implies.
pub mod Loops
pub mod Accepted
