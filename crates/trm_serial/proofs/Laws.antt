-- Laws of the serial line, one theme to a file.
pub mod Places
pub mod Lists
pub mod Clock
pub mod Fates
pub mod Stages
pub mod Steps
pub mod Joined
pub mod Busy
pub mod Narrow
pub mod Cases
