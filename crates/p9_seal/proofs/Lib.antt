pub mod Pieces
pub mod Readings
pub mod Places
pub mod Blanks
pub mod Resealed
mod Copies
pub mod Certificates
pub mod Prepares
pub mod Sealings
