pub mod Reach
pub mod Conditions
pub mod Told
pub mod Laws
pub mod Rows
