pub mod Decides
pub mod Trying
pub mod LegalTest
pub mod GroupTest
pub mod RowTest
pub mod Table
