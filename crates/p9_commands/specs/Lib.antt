pub mod Listing
pub mod Judgement
pub mod Word
pub mod Command
pub mod Offer
