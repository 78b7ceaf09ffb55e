pub mod Offscreen
