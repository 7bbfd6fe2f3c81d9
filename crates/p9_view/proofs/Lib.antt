pub mod Finds
pub mod Ways
pub mod Mets
pub mod Orders
pub mod Tours
pub mod Walks
mod Names
mod Ranked
mod Passers
