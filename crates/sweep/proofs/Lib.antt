pub mod Steps
pub mod Laws
pub mod Listed
pub mod Layers
