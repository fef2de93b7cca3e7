pub mod Smallest
pub mod Sums
pub mod Listing
