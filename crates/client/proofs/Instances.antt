-- Instances that a history of calls reaches, of what the theorems take.
pub mod Read
pub mod Write
pub mod Repair
pub mod Stamp
pub mod Done
pub mod Round
pub mod Orders
pub mod Times
