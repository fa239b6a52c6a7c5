pub mod Rows
pub mod Verdicts
pub mod Printed
pub mod Laws
