pub mod Number
pub mod Order
pub mod Maybe
pub mod Eighths
pub mod Laws
