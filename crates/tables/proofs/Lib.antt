pub mod Longer
pub mod Agree
