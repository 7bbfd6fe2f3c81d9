pub mod Play
pub mod Guards
pub mod Script
pub mod Laws
