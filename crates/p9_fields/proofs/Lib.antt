pub mod Texts
pub mod Times
