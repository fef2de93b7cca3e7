pub mod Laid
pub mod Words
pub mod Setting
pub mod Trying
pub mod Queues
