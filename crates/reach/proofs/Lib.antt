pub mod Rows
pub mod Shares
pub mod Numbers
pub mod Least
pub mod Boxes
pub mod Shown
pub mod Exactly
