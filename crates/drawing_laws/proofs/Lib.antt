pub mod Rows
pub mod Box
pub mod Kept
pub mod Finished
pub mod Words
pub mod Calls
pub mod Runs
pub mod Mirrored
