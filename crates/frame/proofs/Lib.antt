pub mod Frames
pub mod Built
