pub mod Seek
pub mod Take
