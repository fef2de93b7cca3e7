pub mod Keys
pub mod Answers
pub mod Sections
pub mod Reads
pub mod Reports
pub mod Steps
pub mod Texts
