pub mod Reach
pub mod ByRows
