mod Among
mod Attaches
mod Creates
pub mod Rooms
pub mod Sessions
mod Truncation
mod Writes
mod Wstats
