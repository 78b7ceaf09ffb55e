pub mod Holds
pub mod TablesHold
pub mod Caught
pub mod Refuted
