pub mod Added
pub mod Sealed
pub mod Command
