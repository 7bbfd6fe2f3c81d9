mod Buffers
pub mod Facts
pub mod Histories
pub mod Orders
mod Outcomes
pub mod Told
