pub mod Refusals
pub mod Readings
pub mod ByIndex
pub mod Negotiation
