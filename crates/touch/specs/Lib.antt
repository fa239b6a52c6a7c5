pub mod Touch
pub mod Conditions
pub mod Passes
pub mod Laws
pub mod Rows
