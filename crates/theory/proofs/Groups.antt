pub mod Share
pub mod Longer
pub mod Context
