pub mod Fixed
pub mod Change
pub mod Changer
