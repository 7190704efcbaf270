pub mod PlanPlayed
