pub mod Plane
pub mod Spans
