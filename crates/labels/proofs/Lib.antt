pub mod Rows
pub mod Single
pub mod Trees
pub mod Joining
pub mod Carried
