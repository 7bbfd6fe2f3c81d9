pub mod Rows
pub mod Tables
pub mod GivenLists
mod GivenRows
pub mod GivenTables
