pub mod Finished
pub mod Conditions
pub mod Laws
pub mod RowWords
