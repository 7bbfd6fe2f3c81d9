pub mod Firsts
pub mod Faults
pub mod Children
pub mod Gaps
