pub mod Breach
pub mod Text
pub mod Verdict
pub mod Listed
pub mod Search
pub mod Laws
