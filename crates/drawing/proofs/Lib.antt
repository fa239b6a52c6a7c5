pub mod Computed
pub mod Order
pub mod Passes
pub mod There
pub mod Exactly
