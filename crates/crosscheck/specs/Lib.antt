pub mod Groups
pub mod Inside
