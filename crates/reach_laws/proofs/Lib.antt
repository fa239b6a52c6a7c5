pub mod Box
pub mod Eighths
pub mod Course
pub mod Verdict
pub mod Runs
pub mod Answered
