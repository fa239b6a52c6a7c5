pub mod Sample
pub mod Quarter
pub mod Typical
pub mod Wild
pub mod Directed
pub mod Offsets
