pub mod Places
pub mod Good
pub mod Laws
