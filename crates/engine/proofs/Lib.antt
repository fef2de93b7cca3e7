pub mod After
pub mod Offers
pub mod Says
pub mod Seeking
pub mod Taking
