pub mod Kept
pub mod Count
pub mod Forests
pub mod Sound
