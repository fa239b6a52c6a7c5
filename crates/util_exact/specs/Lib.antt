pub mod Integer
pub mod Value
pub mod Laws
