-- The serial line in definitions, in reading order: the periods, the receiver and transmitter, what happens in a clock, and the claims.
-- Paper, A1: "A frame is a low start bit, eight data bits lowest first and a high stop bit".
pub mod Timing
pub mod Serial
pub mod Rule
pub mod Moments
pub mod Cases
pub mod Claims
