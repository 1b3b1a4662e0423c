pub mod Field
pub mod Sums
pub mod Inside
