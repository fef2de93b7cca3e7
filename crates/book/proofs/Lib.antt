pub mod Said
pub mod Edges
pub mod Planted
pub mod UpTo
pub mod Scanning
pub mod Checks
pub mod Figures
pub mod Determined
