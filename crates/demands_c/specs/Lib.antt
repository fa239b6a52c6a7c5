pub mod Calls
pub mod Demands
