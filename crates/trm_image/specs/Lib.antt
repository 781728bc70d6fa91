-- The definitions of images, in reading order.
-- Paper: "Images and the listing program"; "Where calls are turned down", rows 1, 2, 3, 4 and 6.
pub mod Records
pub mod Numbers
pub mod Refused
pub mod Promises
pub mod Meaning
pub mod Runs
pub mod Written
pub mod Cases
pub mod Payloads
pub mod Claims
