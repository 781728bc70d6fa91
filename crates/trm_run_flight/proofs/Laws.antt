-- The law of a turn with a word in flight.
pub mod Flight
