pub mod Wish
pub mod Closed
