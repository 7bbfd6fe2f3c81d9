pub mod Entries
pub mod Tree
pub mod Join
