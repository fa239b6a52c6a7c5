pub mod Floats
pub mod Count
pub mod Unique
pub mod Order
pub mod Negation
pub mod Laws
