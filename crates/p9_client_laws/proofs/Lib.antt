pub mod Came
pub mod Frames
pub mod Order
pub mod Rounds
pub mod Steps
pub mod Whole
