pub mod Script
pub mod Theorems
