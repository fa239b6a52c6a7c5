pub mod Sweep
pub mod Laws
