pub mod Session
pub mod Ranges
pub mod Reply
pub mod Reader
pub mod Opening
pub mod Owed
pub mod Writer
pub mod Inside
