pub mod Infinity
pub mod Laws
