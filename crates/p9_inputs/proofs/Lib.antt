pub mod Showings
pub mod Drawings
