-- Laws of the device that a clock reads, one theme to a file.
pub mod Answers
pub mod Due
