pub mod Meaning
pub mod Lookups
pub mod Changes
pub mod Worlds
pub mod TwoForests
