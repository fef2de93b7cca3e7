pub mod Laws
pub mod Count
