pub mod ReachWords
pub mod DrawingWords
pub mod TouchWords
