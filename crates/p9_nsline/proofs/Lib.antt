pub mod Words
pub mod Finding
pub mod Binding
pub mod Including
pub mod GivenFinds
pub mod GivenBinds
pub mod Lines
pub mod Founds
mod BadForms
