pub mod RightEdge
pub mod Joined
