pub mod Deliver
pub mod History
