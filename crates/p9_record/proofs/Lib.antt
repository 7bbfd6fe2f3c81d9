pub mod Modes
pub mod Texts
pub mod Saved
pub mod ReadBack
pub mod Checksums
