pub mod Runs
pub mod Outcomes
pub mod Cuts
