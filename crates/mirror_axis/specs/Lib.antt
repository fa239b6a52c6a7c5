pub mod Image
pub mod Law
