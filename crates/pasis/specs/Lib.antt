pub mod Store
pub mod Client
pub mod Plans
