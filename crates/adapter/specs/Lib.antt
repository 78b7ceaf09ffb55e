pub mod Picture
pub mod Fence
