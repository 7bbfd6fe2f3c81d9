pub mod Text
pub mod Sections
pub mod Error
pub mod Sealing
