pub mod Holding
pub mod Behind
pub mod Feeding
pub mod Meeting
pub mod Running
