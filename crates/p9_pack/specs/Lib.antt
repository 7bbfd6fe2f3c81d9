pub mod Account
pub mod Accounts
pub mod Once
