pub mod Walks
pub mod Pieces
pub mod Joins
pub mod Parts
pub mod Verdicts
pub mod Refusals
pub mod Walkers
pub mod Changes
