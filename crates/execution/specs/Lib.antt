pub mod Straight
pub mod Table
pub mod Claim
pub mod Turns
pub mod Queue
