pub mod Answers
pub mod Registers
pub mod AfterWrites
pub mod Negotiation
