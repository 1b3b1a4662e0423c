pub mod Lanes
pub mod Inside
