pub mod Hide
pub mod Input
pub mod Mode
pub mod Owner
pub mod Rename
pub mod Server
pub mod Settings
pub mod Status
