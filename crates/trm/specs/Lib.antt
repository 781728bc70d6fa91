-- What each exported call returns for every input.
-- Paper: "Where calls are turned down".
pub mod Promises
pub mod BoardPromises
pub mod Layout
