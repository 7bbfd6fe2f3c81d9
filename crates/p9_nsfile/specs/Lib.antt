pub mod Run
pub mod Given
