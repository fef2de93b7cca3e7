pub mod Counted
pub mod Room
pub mod Circling
