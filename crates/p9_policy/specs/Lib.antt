pub mod Policy
pub mod Classes
pub mod Listed
pub mod Rows
pub mod Barred
pub mod Text
pub mod Faults
pub mod Laws
