pub mod Bits
pub mod Differs
pub mod Shift
