pub mod Rows
pub mod Laws
pub mod Held
pub mod Numbers
pub mod Sums
pub mod Edges
