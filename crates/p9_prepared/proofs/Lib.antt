mod Scripts
mod BadEvents
mod Bundles
mod Parts
mod Smalls
mod Worlds
pub mod Paths
mod NameSpaces
pub mod Statements
mod Preparing
mod Layouts
