pub mod Moves
pub mod Rows
