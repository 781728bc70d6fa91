-- Laws of the board beside any core, one theme to a file.
pub mod Ranges
pub mod Follows
pub mod Line
pub mod Busy
pub mod Tick
pub mod Course
pub mod Cases
