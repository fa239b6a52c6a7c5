pub mod Accepted
pub mod Pixels
pub mod Conditions
pub mod Told
pub mod Laws
pub mod Rows
