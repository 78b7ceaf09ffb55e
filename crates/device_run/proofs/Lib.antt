pub mod RunLaws
pub mod ByRows
