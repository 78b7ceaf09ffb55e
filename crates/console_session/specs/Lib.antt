pub mod Console
pub mod Parts
pub mod Output
pub mod Session
