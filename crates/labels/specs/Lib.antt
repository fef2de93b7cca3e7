pub mod Rows
pub mod Labels
