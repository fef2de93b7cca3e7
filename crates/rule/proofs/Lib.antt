pub mod Tests
pub mod Counting
pub mod Places
pub mod Legality
pub mod Loops
pub mod Determined
pub mod Passed
pub mod Outcomes
