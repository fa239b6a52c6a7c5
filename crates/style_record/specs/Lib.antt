pub mod Record
pub mod Table
pub mod Check
pub mod Codes
pub mod Decode
pub mod Encode
pub mod Laws
pub mod Rows
