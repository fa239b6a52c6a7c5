pub mod Image
pub mod Quarter
pub mod Mirrored
pub mod Law
