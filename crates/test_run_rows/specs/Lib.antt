pub mod Script
pub mod Runs
pub mod Readings
pub mod Previews
