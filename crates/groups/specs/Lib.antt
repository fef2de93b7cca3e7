pub mod Lent
pub mod Passes
pub mod Classes
