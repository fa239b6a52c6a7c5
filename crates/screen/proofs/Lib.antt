pub mod Lines
pub mod Whole
pub mod Laws
pub mod Exactly
