pub mod Column
pub mod Lines
pub mod Laws
