pub mod Undo
pub mod Lines
