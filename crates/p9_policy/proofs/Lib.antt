pub mod Basics
pub mod Searched
pub mod ByClass
pub mod Parents
pub mod Readings
pub mod Written
pub mod BadLines
