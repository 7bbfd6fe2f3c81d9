pub mod Reading
pub mod Served
