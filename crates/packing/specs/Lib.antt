pub mod PlanBytes
pub mod SessionBytes
