pub mod Leaders
pub mod Laws
pub mod Held
pub mod Sparse
pub mod Touched
