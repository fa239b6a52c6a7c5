pub mod Stores
pub mod Cells
pub mod Lines
pub mod Laws
