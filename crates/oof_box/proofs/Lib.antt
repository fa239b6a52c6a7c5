pub mod Rest
pub mod Talks
pub mod Floor
