pub mod Axis
pub mod StaticOffset
pub mod Laws
