pub mod Fids
pub mod Values
pub mod Holding
pub mod Popped
pub mod Places
