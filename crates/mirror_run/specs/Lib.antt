pub mod Image
pub mod Quarter
pub mod Laws
pub mod Runs
pub mod Mirror
