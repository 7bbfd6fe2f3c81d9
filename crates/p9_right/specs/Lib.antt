pub mod Class
pub mod Right
