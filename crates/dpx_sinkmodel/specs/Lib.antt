pub mod Loaded
pub mod History
pub mod PlanPort
