pub mod Cuts
pub mod Laws
mod ByMasks
pub mod Stored
