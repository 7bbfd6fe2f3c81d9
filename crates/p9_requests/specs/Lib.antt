pub mod Wstat
pub mod Answers
pub mod Create
pub mod Room
pub mod Taken
