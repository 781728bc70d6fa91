-- The device that a clock is about to read.
-- Paper: "a device is read or written only in that clock".
pub mod Device
pub mod Claims
