pub mod Call
pub mod Refusals
pub mod Run
pub mod Preview
pub mod Conditions
pub mod Straight
pub mod Theorems
pub mod PreviewTheorems
