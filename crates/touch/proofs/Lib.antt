pub mod Rows
pub mod Words
pub mod Passes
pub mod There
pub mod Boxes
pub mod Exactly
pub mod Alike
