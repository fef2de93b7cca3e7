pub mod Reached
pub mod Stages
pub mod Trail
pub mod Image
pub mod Outcome
pub mod Circuit
