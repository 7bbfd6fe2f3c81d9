pub mod Row
pub mod Table
pub mod Trail
pub mod Place
pub mod Rights
pub mod Given
