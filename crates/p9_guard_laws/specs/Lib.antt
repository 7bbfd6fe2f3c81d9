pub mod Grown
pub mod Guarded
pub mod Alike
pub mod Laws
