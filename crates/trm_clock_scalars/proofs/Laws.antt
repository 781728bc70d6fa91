-- Laws of one step of the multiplier or the divider.
-- Idea: a step takes the closed form after k steps to the one after k + 1.
pub mod Steps
pub mod Unit
