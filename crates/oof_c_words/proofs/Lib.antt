pub mod Laws
pub mod Floats
pub mod Kept
pub mod Pixels
