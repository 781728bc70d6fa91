-- Laws of the board with the core inside, one theme to a file.
pub mod Obeys
pub mod Rows
pub mod Ready
pub mod Clock
pub mod Run
pub mod One
pub mod Lines
pub mod Ahead
