pub mod Codes
pub mod Static
