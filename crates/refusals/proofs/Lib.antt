pub mod Reasons
pub mod Rules
pub mod Demand2
pub mod Refuted
pub mod Copies
