pub mod States
pub mod Alone
pub mod Laws
