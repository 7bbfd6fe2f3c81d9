pub mod Blocks
pub mod Device
pub mod Draft
pub mod Log
pub mod Memory
pub mod Past
pub mod Reading
pub mod Rest
