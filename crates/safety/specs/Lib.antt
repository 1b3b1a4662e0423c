pub mod Run
pub mod Safety
pub mod Done
