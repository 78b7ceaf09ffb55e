pub mod Device
pub mod Making
