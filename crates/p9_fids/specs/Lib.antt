pub mod Opened
pub mod Fid
pub mod Fids
pub mod Held
