pub mod Nodes
pub mod Sweeps
pub mod Calls
pub mod Openings
pub mod Replies
pub mod Previews
