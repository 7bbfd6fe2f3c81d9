pub mod Allocator
pub mod Count
pub mod Digits
pub mod Turns
