pub mod Beyond
mod DirectoryReads
mod Entries
mod Fillings
mod Listings
pub mod Places
pub mod Removals
pub mod Reserved
mod Walks
