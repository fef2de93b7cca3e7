pub mod Rows
pub mod Holds
