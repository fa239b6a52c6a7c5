pub mod Talk
pub mod Box
pub mod Cut
pub mod Theorems
