pub mod Answers
pub mod Listing
pub mod Held
pub mod Reserved
