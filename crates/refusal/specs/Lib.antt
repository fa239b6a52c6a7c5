pub mod Refusal
pub mod Laws
