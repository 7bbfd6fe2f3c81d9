pub mod Marks
pub mod Promises
pub mod Rooms
pub mod Progress
pub mod Begins
pub mod Sentences
