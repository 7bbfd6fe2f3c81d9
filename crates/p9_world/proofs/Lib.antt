pub mod Names
pub mod Lists
pub mod Worlds
pub mod Readings
pub mod Members
pub mod TextPositions
pub mod LastDirs
pub mod Readers
mod Refused
mod BadLines
mod NodeLines
pub mod Fits
pub mod Words
pub mod Paths
pub mod Modes
pub mod Digits
pub mod Puts
pub mod Lines
pub mod Loops
pub mod Meanings
pub mod Written
pub mod WordFaults
