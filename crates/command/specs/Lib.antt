pub mod Commands
pub mod Findings
