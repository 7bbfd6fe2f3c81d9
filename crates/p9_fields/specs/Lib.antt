pub mod Stat
pub mod Fields
pub mod FieldReading
