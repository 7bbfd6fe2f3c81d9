pub mod Reduction
pub mod Joined
pub mod Steps
pub mod RuleLemmas
pub mod ReadingBack
