pub mod Records
pub mod Desks
