pub mod Adding
pub mod Rounds
pub mod Listing
pub mod Edges
pub mod BookLines
pub mod Sizes
pub mod Widening
