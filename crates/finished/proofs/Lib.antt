pub mod There
pub mod Laws
