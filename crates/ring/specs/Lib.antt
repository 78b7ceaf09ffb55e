pub mod Acceptance
pub mod Waiting
pub mod Append
