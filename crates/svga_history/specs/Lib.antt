pub mod WordCalls
pub mod WordHarm
