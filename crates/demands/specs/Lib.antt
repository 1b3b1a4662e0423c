pub mod Edges
pub mod Ends
pub mod HostRuns
pub mod Evening
