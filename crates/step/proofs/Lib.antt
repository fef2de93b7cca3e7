pub mod Asked
pub mod Runs
pub mod Undo
