pub mod Geometry
pub mod Laws
