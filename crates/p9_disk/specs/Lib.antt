pub mod Crashes
pub mod Disk
pub mod Events
pub mod Noted
