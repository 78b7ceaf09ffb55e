pub mod Rectangle
pub mod Pixels
pub mod Parts
