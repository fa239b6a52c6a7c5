pub mod Screen
pub mod Laws
