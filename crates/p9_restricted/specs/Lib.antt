pub mod Front
pub mod Masked
pub mod Stream
pub mod Laws
