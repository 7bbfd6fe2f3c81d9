pub mod Path
pub mod Rules
