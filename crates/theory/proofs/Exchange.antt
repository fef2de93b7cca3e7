pub mod Step
pub mod Walk
pub mod Shift
pub mod Moved
