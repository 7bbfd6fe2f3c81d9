pub mod Free
pub mod Claim
pub mod Passing
pub mod Certificate
pub mod Walker
pub mod Told
pub mod Change
pub mod Explained
