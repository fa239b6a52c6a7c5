pub mod Table
pub mod Back
pub mod Laws
pub mod Spelled
pub mod Good
