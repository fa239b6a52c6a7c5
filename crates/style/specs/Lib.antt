pub mod Resolve
pub mod Values
pub mod Codes
pub mod Laws
pub mod Rows
