pub mod Beside
pub mod Accounts
pub mod Twins
pub mod Outside
pub mod Decided
pub mod Inputs
