pub mod Cuts
pub mod Short
pub mod Runs
pub mod EndToEnd
pub mod Unique
pub mod Bounds
