pub mod Bitwise
pub mod Named
pub mod ByMasks
pub mod Laws
