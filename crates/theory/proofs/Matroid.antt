pub mod Arrange
pub mod Formula
pub mod Augment
