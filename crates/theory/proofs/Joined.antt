pub mod Chains
pub mod Laws
pub mod Acyclic
pub mod Longer
