pub mod Sets
pub mod Legal
pub mod Forests
pub mod Figures
pub mod Books
pub mod Reasons
pub mod Answers
pub mod Calls
