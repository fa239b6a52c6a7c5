pub mod Format
pub mod Field
pub mod Laws
