pub mod Records
pub mod Book
pub mod Inside
