pub mod Record
pub mod Desk
