pub mod Accepted
pub mod Sizes
pub mod Resolved
pub mod Box
pub mod Overflow
pub mod Run
pub mod Tests
