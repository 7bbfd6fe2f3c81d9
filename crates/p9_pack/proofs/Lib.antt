pub mod Rows
pub mod Loops
