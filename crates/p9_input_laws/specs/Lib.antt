pub mod Laws
pub mod Witness
pub mod NeverThere
pub mod Lives
