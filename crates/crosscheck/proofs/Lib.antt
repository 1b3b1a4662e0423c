pub mod Entries
pub mod Stretches
