pub mod SizingKeyword
pub mod ScrollableOverflow
