mod Arrivals
mod ChannelRows
mod Walks
pub mod Names
pub mod GivenWalks
