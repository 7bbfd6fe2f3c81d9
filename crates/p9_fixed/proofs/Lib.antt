pub mod Changes
pub mod Changers
