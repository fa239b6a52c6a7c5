pub mod Records
pub mod Laws
