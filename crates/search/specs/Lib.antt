pub mod Given
pub mod Answers
pub mod Ends
pub mod Marks
