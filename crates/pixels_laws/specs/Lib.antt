pub mod Quarter
pub mod Laws
