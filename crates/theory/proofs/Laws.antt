pub mod Transport
pub mod Plus
pub mod Reorder
pub mod Grown
pub mod Order
pub mod Undo
pub mod Circuits
pub mod Twin
