pub mod Marks
pub mod Headline
pub mod Served
pub mod Guard
pub mod Sentence
