mod Sessions
pub mod Keyed
