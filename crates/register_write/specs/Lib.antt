pub mod Answers
pub mod Registers
pub mod Rules
