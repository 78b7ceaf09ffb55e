pub mod Laws
pub mod Tables
pub mod QueueLaws
pub mod Examples
