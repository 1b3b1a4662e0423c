pub mod Rules
pub mod Requests
