pub mod Laying
pub mod Writing
pub mod Reading
