pub mod Scan
pub mod Checks
