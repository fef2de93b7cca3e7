pub mod Numbers
pub mod Joined
pub mod Rank
pub mod Closed
pub mod Exchange
pub mod Search
pub mod Order
pub mod Groups
