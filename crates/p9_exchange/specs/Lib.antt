pub mod Line
pub mod Refusal
pub mod Input
pub mod Script
pub mod Message
pub mod Talk
pub mod Exchange
