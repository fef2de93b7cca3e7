pub mod Turns
pub mod Arrived
